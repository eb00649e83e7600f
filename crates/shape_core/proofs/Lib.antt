pub mod Cycles
pub mod Drafts
pub mod KeyTexts
pub mod Lists
pub mod Tables
pub mod Typing
pub mod Undeclared
pub mod Walks
