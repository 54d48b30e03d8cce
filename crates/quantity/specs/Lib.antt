pub mod Range
pub mod Made
pub mod laws
