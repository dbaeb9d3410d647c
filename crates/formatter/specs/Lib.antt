pub mod Calls
pub mod Formats
pub mod Marking
pub mod Steps
