pub mod ChosenSectors
pub mod Going
pub mod NamedWrites
