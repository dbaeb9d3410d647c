pub mod Again
pub mod Finding
pub mod Learning
pub mod Settling
