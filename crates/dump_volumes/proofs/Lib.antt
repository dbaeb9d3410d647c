pub mod Counted
pub mod Informed
pub mod Listed
pub mod Slotted
pub mod Walking
