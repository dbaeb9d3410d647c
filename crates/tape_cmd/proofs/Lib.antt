pub mod Made
pub mod Printing
pub mod Scripted
