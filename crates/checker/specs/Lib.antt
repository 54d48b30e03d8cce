pub mod Entry
pub mod Check
pub mod Rows
pub mod Whole
pub mod Unjudged
pub mod Passes
pub mod laws
