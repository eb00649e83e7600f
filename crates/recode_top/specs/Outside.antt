pub mod Counting
pub mod InMemory
