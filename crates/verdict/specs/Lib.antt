pub mod Verdict
pub mod Judged
pub mod Raising
pub mod laws
