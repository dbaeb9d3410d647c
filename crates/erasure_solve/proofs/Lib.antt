pub mod Algebra
pub mod Blocks
pub mod Columns
pub mod Places
pub mod Plans
pub mod Ring
