-- What is proved of finding a name.
pub mod Searching
