pub mod Endings
pub mod Hands
pub mod Hearing
pub mod Inputs
pub mod Running
pub mod Trains
