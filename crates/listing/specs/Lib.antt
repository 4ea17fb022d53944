-- What public promises cite.
pub mod Listing
-- What private contracts cite alone.
pub mod Keys
