-- What is proved of the definitions.
pub mod Cases
pub mod Divided
pub mod Heads
pub mod LineLaws
pub mod Members
pub mod Only
pub mod Plates
pub mod Rules
pub mod Steps
pub mod Table
pub mod TableLaws
pub mod Told
pub mod TrailLaws
pub mod True
