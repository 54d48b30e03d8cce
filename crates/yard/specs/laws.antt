-- What is proved of the definitions.
pub mod Answers
pub mod Back
pub mod ConvertAnswers
pub mod EditAnswers
pub mod Only
pub mod PackedLaws
