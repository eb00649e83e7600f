pub mod Fronts
pub mod Quoted
pub mod ShapeLineReading
pub mod Laws
