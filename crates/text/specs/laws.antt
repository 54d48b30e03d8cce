-- What is proved of the definitions.
pub mod LineLaws
pub mod LinesLaws
pub mod Only
