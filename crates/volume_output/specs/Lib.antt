pub mod Form
pub mod Output
pub mod Part
pub mod Piece
