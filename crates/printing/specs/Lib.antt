-- What `cards` prints of a header.
pub mod Output
-- What private contracts cite alone.
pub mod Ready
