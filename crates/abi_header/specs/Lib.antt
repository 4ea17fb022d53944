-- What public promises cite.
pub mod Headers
-- What private contracts cite alone.
pub mod Writing
