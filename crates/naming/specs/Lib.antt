-- What public promises cite.
pub mod Naming
