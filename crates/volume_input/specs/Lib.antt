pub mod Input
pub mod Length
pub mod Next
