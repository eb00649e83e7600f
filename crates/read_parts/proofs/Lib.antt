pub mod Numerals
pub mod Characters
pub mod Ranges
mod Rows
