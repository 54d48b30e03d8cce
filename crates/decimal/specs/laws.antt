-- What is proved of the definitions.
pub mod DecimalLaws
pub mod LaidLaws
pub mod LineLaws
pub mod PutLaws
pub mod ReadCases
pub mod ReadLaws
pub mod Spelled
