pub mod Copying
pub mod Dividing
