-- What is proved of the definitions.
pub mod Bounds
pub mod Cases
pub mod Only
pub mod SourceLaws
