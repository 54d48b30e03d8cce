-- What is proved of the definitions.
pub mod BackAgain
pub mod CallBytes
pub mod CallLaws
pub mod CallRowLaws
pub mod CallVerdicts
pub mod Example
pub mod HeaderBits
pub mod NextPut
pub mod Numbers
pub mod Outcomes
pub mod Rebuilt
pub mod RowLaws
pub mod Sequences
pub mod Slender
pub mod Touched
pub mod Verdicts
pub mod CallCases
