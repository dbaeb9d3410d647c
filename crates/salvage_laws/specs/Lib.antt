pub mod CellLaws
pub mod Exported
pub mod ListLaws
pub mod UncompressedLaws
pub mod VolumeLaws
