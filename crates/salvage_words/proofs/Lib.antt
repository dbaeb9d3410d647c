pub mod Asked
pub mod Commands
pub mod Matches
pub mod Numbers
