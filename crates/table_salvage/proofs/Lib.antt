pub mod TableData
pub mod Tables
