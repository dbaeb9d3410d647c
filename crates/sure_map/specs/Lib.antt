pub mod Counts
pub mod Maps
pub mod Runs
