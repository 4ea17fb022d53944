-- What is proved of a header's cards and their roles.
pub mod Cards
pub mod Counting
pub mod Placing
