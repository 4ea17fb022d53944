-- What the contracts of `abi_writing` cite: its public promises rest on all of it.
pub mod Asking
