pub mod Parsing
pub mod Batches
pub mod Writing
