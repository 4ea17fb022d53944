-- What public promises cite.
pub mod Finding
-- What private contracts cite alone.
pub mod Passing
