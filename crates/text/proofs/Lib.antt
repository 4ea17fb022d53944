-- Laws of bytes and texts.
pub mod Trimming
pub mod Comparing
pub mod Texts
pub mod Finding
pub mod Laying
pub mod Printing
