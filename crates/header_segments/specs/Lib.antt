pub mod Header
pub mod Refusal
