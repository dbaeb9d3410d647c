pub mod Filled
pub mod Inputs
pub mod Next
pub mod Places
pub mod Running
pub mod Told
pub mod Volume
