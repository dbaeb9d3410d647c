pub mod Matched
pub mod Options
pub mod Reading
pub mod SalvageWords
