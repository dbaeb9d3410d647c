pub mod BackLaws
pub mod Cutting
pub mod Digits
pub mod Following
pub mod Giving
pub mod Lining
pub mod Marking
pub mod Masking
pub mod Moving
pub mod RunLaws
pub mod Texting
mod Worked
