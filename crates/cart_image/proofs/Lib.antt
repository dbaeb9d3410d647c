mod Asked
pub mod Bytes
mod Carries
pub mod Changes
mod Choices
mod Copies
mod EachSector
pub mod Exits
pub mod FailedLooks
mod Fills
mod Formats
mod Gathers
mod Heads
mod Infos
mod Known
mod Laid
mod Layouts
pub mod Loops
mod Overwrites
mod Places
pub mod Renews
pub mod Runs
mod Sectors
mod Stages
mod States
mod Tapes
mod Upgrades
mod Writes
