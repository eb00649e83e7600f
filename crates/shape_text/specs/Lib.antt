pub mod ShapeErrors
