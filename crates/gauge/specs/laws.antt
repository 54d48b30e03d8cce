-- What is proved of the definitions.
pub mod CeilLaws
pub mod LeastLaws
pub mod Monotone
pub mod Only
pub mod ShapeLaws
pub mod WorkedLaws
