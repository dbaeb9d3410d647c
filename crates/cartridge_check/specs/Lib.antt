pub mod Checking
pub mod Telling
pub mod Verdicts
