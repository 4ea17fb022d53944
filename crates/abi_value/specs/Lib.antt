-- What the contracts of `abi_value` cite: its public promises rest on all of it.
pub mod Telling
