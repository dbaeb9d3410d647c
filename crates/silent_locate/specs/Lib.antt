pub mod Deep
pub mod Laws
pub mod Tries
