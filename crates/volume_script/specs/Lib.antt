pub mod Answers
pub mod Ending
pub mod Heard
pub mod Items
pub mod Limited
pub mod Promised
pub mod Refusing
pub mod Runs
