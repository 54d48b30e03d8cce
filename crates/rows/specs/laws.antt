-- What is proved of the definitions.
pub mod Only
pub mod PackLaws
pub mod RowLaws
