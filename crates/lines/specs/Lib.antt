-- What public promises cite
pub mod Lines
-- What private contracts cite alone
pub mod Segments
