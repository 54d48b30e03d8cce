pub mod Pack
pub mod Forms
pub mod Rows
pub mod Steps
pub mod laws
