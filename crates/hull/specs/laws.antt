-- What is proved of the definitions.
pub mod Cases
pub mod PutLaws
pub mod RaisingLaws
pub mod SourceLaws
pub mod Computing
