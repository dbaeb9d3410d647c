pub mod Given
pub mod Lines
pub mod Printing
pub mod Runs
pub mod Source
