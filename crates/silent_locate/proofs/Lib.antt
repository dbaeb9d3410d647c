pub mod Cells
pub mod Outcomes
pub mod Readings
pub mod Sectors
pub mod Sets
