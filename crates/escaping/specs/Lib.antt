-- What public promises cite.
pub mod Escaping
