pub mod Counting
pub mod Mapping
pub mod Running
