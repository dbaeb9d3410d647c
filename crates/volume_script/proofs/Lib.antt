pub mod Appended
pub mod Content
pub mod Hearing
pub mod Input
pub mod Plain
pub mod Quiet
pub mod Running
pub mod Telling
