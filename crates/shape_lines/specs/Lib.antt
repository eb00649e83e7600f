pub mod ShapeLines
pub mod ShapeNumbers
pub mod ShapePlaces
pub mod ShapeScopes
pub mod ShapeReading
pub mod ShapeErrors
