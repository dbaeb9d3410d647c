pub mod Added
pub mod Checks
pub mod Formats
pub mod Mounted
pub mod Restored
pub mod Rooms
pub mod Scrubbed
