pub mod Outcome
pub mod PulseLines
pub mod PulseRuns
pub mod Writing
