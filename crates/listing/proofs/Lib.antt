-- Laws of keys and their order, and of tables.
pub mod Keyed
pub mod Lows
pub mod Keying
pub mod Ordering
pub mod Halving
pub mod Rows
pub mod Entering
pub mod Placing
pub mod Lengths
