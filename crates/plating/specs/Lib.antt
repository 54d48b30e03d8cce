pub mod Kinds
pub mod Rules
pub mod Bounds
pub mod Shapes
pub mod Work
pub mod laws
