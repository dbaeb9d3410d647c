pub mod Format
pub mod Opening
pub mod Statuses
