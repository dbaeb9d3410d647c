pub mod Copies
pub mod Keeping
pub mod Marks
pub mod Parts
pub mod Places
pub mod Told
