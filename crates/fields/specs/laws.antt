-- What is proved of the definitions.
mod Cases
pub mod First
pub mod Only
