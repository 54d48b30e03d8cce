pub mod Rows
pub mod Edits
pub mod Calls
pub mod CallRows
pub mod laws
