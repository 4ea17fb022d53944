-- Laws that several proofs cite, and what the decimal record is worth.
pub mod Valuing
pub mod Altering
pub mod Capping
pub mod Scaling
pub mod Words
pub mod Worth
pub mod Lengths
pub mod Reading
pub mod Fronts
