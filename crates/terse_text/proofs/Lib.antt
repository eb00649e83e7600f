pub mod Letters
pub mod Stands
pub mod Taking
