-- What is proved of the definitions.
pub mod Bounds
pub mod CheckLaws
pub mod EntryLaws
pub mod FrontLaws
pub mod Longer
pub mod Only
pub mod Sound
pub mod ThenLaws
pub mod UnjudgedLaws
pub mod Parts
pub mod SheetRefusals
pub mod Computing
