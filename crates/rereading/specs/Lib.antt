-- What is certain of written cards.
pub mod ReadsBack
