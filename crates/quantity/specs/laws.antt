-- What is proved of the definitions.
pub mod Holding
pub mod Laws
pub mod RangeLaws
