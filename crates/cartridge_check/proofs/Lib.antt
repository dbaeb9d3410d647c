pub mod Ending
pub mod Front
pub mod Joining
pub mod Looked
pub mod Parts
pub mod Stages
pub mod Table
pub mod Telling
