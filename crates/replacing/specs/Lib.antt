-- What is certain where written cards take the places of a name's old ones, and why each condition is there.
pub mod Replacing
pub mod Conditions
