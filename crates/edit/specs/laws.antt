-- What is proved of the definitions.
pub mod Done
pub mod HeaderCount
pub mod Only
pub mod Taken
pub mod Within
