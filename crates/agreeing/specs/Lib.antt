-- What is certain of the list of names beside lookup: open `Agreeing` first.
pub mod Firsts
pub mod Agreeing
pub mod Halves
pub mod Times
