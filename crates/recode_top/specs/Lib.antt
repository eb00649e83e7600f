pub mod Outside
pub mod Stopping
pub mod Recode
pub mod RecodeTexts
pub mod Requests
pub mod ShapeNotes
pub mod Running
