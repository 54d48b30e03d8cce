pub mod Filling
pub mod Steps
pub mod laws
