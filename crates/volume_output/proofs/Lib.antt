pub mod Bytes
pub mod Joining
pub mod OnePiece
pub mod Parts
pub mod Walking
