pub mod Inputs
pub mod Lines
pub mod Running
pub mod Tellings
