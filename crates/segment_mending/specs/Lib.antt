pub mod Lines
pub mod Locating
pub mod Looking
pub mod Mending
pub mod Searching
