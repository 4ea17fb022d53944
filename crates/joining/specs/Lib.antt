-- What public promises and the demands cite: joining, lookup, and which cards belong to a name (SPECIFICATION 9, 10 and 14).
pub mod Words
pub mod Lookup
pub mod Belonging
