-- Laws of numbers as text.
pub mod Decimals
pub mod Worths
