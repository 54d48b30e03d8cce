pub mod Edit
pub mod Steps
pub mod laws
