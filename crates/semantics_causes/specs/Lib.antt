pub mod Taken
pub mod Due
pub mod Causes
pub mod Refusals
