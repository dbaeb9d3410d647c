pub mod Asked
pub mod Printable
