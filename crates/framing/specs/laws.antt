-- What is proved of the definitions.
pub mod BoundLaws
pub mod Laws
pub mod ShapeLaws
pub mod WorkLaws
