-- Laws that the proofs of `abi_card` share.
pub mod Fitting
