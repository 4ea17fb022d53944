-- What public promises cite: the roles, and a header's bytes as its cards.
pub mod Roles
pub mod Cards
