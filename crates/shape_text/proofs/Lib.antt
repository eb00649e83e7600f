pub mod ShapeTexts
