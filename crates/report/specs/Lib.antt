pub mod Text
pub mod Page
pub mod Pieces
pub mod Reading
pub mod laws
