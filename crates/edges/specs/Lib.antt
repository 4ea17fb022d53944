-- What is proved of the readings and writings at the edges.
pub mod Edges
pub mod Writing
