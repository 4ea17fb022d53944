-- What the contracts of `rice` cite, in the order of FITS Standard 10.4.1 and SPECIFICATION 12.

-- What public promises cite
pub mod Tile
pub mod Widths
pub mod Reads
pub mod Blocks
pub mod Steps
-- What private contracts cite alone
pub mod Held
pub mod Words
pub mod Filling
pub mod Easy
