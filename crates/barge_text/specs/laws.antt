-- What is proved of the definitions.
pub mod ConvertLaws
pub mod ShownLaws
