pub mod Explain
pub mod laws
