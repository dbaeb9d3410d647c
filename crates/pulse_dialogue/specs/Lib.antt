pub mod Dialogue
pub mod Events
pub mod Laws
pub mod Lines
pub mod Reading
pub mod Runs
pub mod Steps
pub mod Telling
