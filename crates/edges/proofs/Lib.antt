pub mod Integers
