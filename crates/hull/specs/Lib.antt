pub mod Hull
pub mod Sources
pub mod Raising
pub mod laws
