pub mod Console
pub mod laws
