-- What is proved of entries and of looking names up.
pub mod Looking
pub mod Joining
pub mod Numbered
pub mod Texts
pub mod Ampersands
pub mod Remarks
