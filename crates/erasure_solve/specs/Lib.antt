pub mod Correction
pub mod Laws
pub mod Lost
pub mod Plan
pub mod Rows
