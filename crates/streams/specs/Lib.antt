pub mod Parts
pub mod Sheets
pub mod Edits
pub mod Texts
