pub mod Image
pub mod ImageTape
pub mod Layout
pub mod Run
pub mod Several
pub mod State
pub mod Tape
pub mod Whole
