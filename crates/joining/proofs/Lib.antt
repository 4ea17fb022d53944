-- What is proved of joining and lookup.
pub mod Names
pub mod Answers
pub mod Owning
