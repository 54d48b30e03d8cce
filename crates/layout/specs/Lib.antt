pub mod Layout
pub mod Bytes
pub mod Line
pub mod laws
