pub mod Deck
pub mod Effects
pub mod Parameters
pub mod Record
pub mod Reports
pub mod Row
pub mod Steps
pub mod Terms
