pub mod Faults
pub mod Gathered
pub mod Lending
pub mod Reading
