-- What is proved of the definitions.
pub mod HeldLaws
pub mod Only
pub mod ReadLaws
pub mod TableLaws
pub mod WriteLaws
