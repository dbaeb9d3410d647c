pub mod Masks
pub mod Names
pub mod Numbers
pub mod Reads
pub mod Scanning
