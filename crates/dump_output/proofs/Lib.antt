pub mod Ending
pub mod Fronts
pub mod Lining
pub mod Looping
pub mod Stepping
pub mod Turns
