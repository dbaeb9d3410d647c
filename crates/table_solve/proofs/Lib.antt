pub mod Collected
pub mod Places
pub mod Segment
pub mod Trials
pub mod Tried
