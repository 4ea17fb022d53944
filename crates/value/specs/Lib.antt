-- What the contracts of `value` cite. Private contracts cite nothing besides.

-- What public promises cite
pub mod Values
pub mod Units
