-- Laws of the kinds of value.
pub mod Starts
pub mod Placing
pub mod Units
