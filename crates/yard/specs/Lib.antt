pub mod Packed
pub mod Fields
pub mod Writing
pub mod Editing
pub mod Converting
pub mod laws
