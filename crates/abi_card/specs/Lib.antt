-- What the contracts of `abi_card` cite: its public promises rest on all of it.
pub mod Records
