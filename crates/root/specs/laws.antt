-- What is proved of the definitions.
pub mod Cases
pub mod RootLaws
