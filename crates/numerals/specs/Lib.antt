-- What the contracts of `numerals` cite: its public promises rest on all of it.
pub mod Numerals
