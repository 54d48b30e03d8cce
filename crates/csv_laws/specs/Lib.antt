pub mod Form
pub mod Faults
pub mod Variants
pub mod laws
