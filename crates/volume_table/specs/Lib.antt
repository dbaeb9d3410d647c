pub mod Entry
pub mod Fault
pub mod Reading
pub mod Trials
