-- Laws of the scan, of splitting and of strings.
pub mod Refusing
pub mod Scanning
pub mod Stretching
pub mod Splitting
pub mod Stringing
pub mod Within
