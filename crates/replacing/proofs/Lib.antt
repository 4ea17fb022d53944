-- What is certain of written cards that take the places of old ones, proved.
pub mod Walking
pub mod Choosing
pub mod Replaced
pub mod Example
