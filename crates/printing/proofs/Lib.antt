-- The line of each name, that no buffer is short for it, the example, lines as they stand, and lines without a number.
pub mod Fitting
pub mod Naming
pub mod Example
pub mod Standing
pub mod Once
