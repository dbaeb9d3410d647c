pub mod Masks
pub mod Sends
