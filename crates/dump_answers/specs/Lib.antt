pub mod Checking
pub mod Commands
pub mod Ends
pub mod Pieces
pub mod Tables
