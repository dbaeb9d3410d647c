pub mod Blocks
pub mod Determined
