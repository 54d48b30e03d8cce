-- What is proved of the definitions.
pub mod RowLaws
pub mod StepLaws
pub mod TrimLaws
pub mod Only
