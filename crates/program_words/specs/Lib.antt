pub mod DumpOptions
pub mod DumpWords
pub mod GapOption
pub mod Refusals
pub mod TraceWords
