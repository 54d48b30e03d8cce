pub mod Number
pub mod Marks
pub mod Field
pub mod Rest
pub mod Lines
pub mod laws
