-- The demands, proved.
pub mod Ending
pub mod Naming
pub mod Isolated
pub mod Halves
pub mod Times
pub mod Columns
