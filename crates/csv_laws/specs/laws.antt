-- What is proved of the definitions.
pub mod Accepted
mod Cases
pub mod Exactly
pub mod Judged
pub mod LinesBack
pub mod Places
pub mod RowForms
pub mod RowsBack
pub mod SheetAgain
pub mod SheetBytes
pub mod Spelled
pub mod TableAgain
mod TableCases
pub mod TextAgain
pub mod Turned
