-- What the contracts of `splitting` cite.

-- What public promises cite
pub mod Scan
pub mod Split
pub mod Strings
pub mod Columns
-- What private contracts cite alone
pub mod Scanned
