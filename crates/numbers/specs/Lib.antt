pub mod Fields
pub mod From
pub mod Held
pub mod laws
