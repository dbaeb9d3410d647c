pub mod GatheredCells
pub mod SolvedCells
