pub mod Asked
pub mod Creating
pub mod Faults
pub mod Forms
pub mod Hints
pub mod Texts
