pub mod FileSink
pub mod FileSource
pub mod SinkLaws
pub mod SourceLaws
