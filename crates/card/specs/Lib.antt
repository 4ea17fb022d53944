-- What the contracts of `card` cite. Private contracts cite nothing besides.

-- What public promises cite
pub mod Keywords
pub mod Columns
pub mod Cards
