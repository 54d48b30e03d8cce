-- What is proved of the definitions.
pub mod BytesLaws
pub mod Laws
pub mod LineLaws
pub mod Only
pub mod Tail
