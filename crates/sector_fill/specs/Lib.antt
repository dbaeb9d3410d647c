pub mod Filling
pub mod Flat
