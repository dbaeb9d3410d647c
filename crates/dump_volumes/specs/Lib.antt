pub mod Counts
pub mod Left
pub mod Masks
pub mod Told
pub mod Volume
