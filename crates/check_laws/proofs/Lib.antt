pub mod Named
pub mod Stopped
