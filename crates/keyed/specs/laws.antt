-- What is proved of the definitions.
pub mod MapLaws
pub mod Places
