pub mod Free
pub mod Opened
