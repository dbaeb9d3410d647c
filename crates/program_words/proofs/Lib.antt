pub mod Asking
pub mod Defaults
pub mod Gaps
pub mod Optional
