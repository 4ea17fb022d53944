-- What is certain: open `Demands` first.
pub mod Demands
pub mod Halves
pub mod Times
pub mod Columns
