-- What is proved of the definitions.
pub mod Only
pub mod PiecesLaws
pub mod WritesLaws
