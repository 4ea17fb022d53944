-- What public promises cite.
pub mod Shown
