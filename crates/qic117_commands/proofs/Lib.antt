pub mod DigitFacts
pub mod Numbers
pub mod ReportFacts
pub mod Rows
pub mod Statuses
