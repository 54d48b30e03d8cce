pub mod Shown
pub mod Convert
pub mod laws
