-- Laws that the proofs of `naming` share.
pub mod Reading
