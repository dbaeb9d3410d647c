pub mod CellsAlone
pub mod WorkedHeaders
pub mod WorkedLines
pub mod WorkedLists
pub mod WorkedMarks
pub mod WorkedPieces
pub mod WorkedVolumes
