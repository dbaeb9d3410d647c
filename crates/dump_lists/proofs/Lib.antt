pub mod Converting
pub mod Following
pub mod Naming
pub mod Numbering
