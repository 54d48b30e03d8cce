pub mod Read
pub mod Table
pub mod Write
pub mod Steps
pub mod laws
