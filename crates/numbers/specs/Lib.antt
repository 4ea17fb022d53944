-- What the contracts of `numbers` cite. The promise of `parse_number` rests on all of it but `Capped`, which private contracts cite.
pub mod Signs
pub mod Digits
pub mod Capped
pub mod Answers
pub mod Integers
pub mod Decimals
pub mod Numbers
