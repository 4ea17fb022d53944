-- What public promises cite.
pub mod Meanings
