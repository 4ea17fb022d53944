-- Laws of an entry's line by its segments and by how many cards bear its name, and the lines that the words of SPECIFICATION 13 give.
pub mod Parts
pub mod Segmenting
pub mod Edges
