-- Laws of keywords, names and cards.
pub mod Highs
pub mod Naming
pub mod Classes
pub mod Placing
pub mod Refusing
pub mod Within
