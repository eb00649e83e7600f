pub mod Ends
pub mod Padded
pub mod Characters
pub mod Special
