pub mod Loads
pub mod Sources
pub mod laws
