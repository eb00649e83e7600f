pub mod Base
pub mod Builder
pub mod Names
pub mod Walks
