-- The bounds, proved.
pub mod Parts
pub mod Cards
pub mod Joined
