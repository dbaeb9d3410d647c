pub mod EachSlot
pub mod Putting
pub mod SlotLaws
pub mod SoFar
pub mod Spelling
pub mod Trying
pub mod Used
