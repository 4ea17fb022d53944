-- What public promises and the demands cite.
pub mod Answers
pub mod Halves
-- What private contracts cite alone.
pub mod Passes
