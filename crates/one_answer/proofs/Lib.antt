-- A theorem for each public contract, by the layers of crates.txt.
pub mod Both
pub mod Cards
pub mod Headers
pub mod Tiles
pub mod Lines
pub mod Boundary
