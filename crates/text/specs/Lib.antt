-- What the contracts of `text` cite: its public promises rest on all of it but `Ends`, which other crates cite.
pub mod Bytes
pub mod Trim
pub mod Same
pub mod Ends
pub mod Text
pub mod Place
