-- What is proved of the definitions.
pub mod JudgedLaws
pub mod Only
pub mod PutLaws
pub mod RaisingLaws
pub mod Steps
