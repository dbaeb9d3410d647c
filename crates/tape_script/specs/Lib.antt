pub mod Generator
pub mod Input
pub mod Reading
