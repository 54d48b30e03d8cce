-- What is proved of the definitions.
pub mod Back
pub mod Cases
pub mod Longest
pub mod PageLaws
pub mod PiecesLaws
pub mod TextLaws
