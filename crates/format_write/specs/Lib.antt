pub mod Wrote
pub mod Writes
