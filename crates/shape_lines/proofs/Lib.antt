pub mod Quotes
pub mod FirstLines
pub mod Names
pub mod Numbers
pub mod LineSteps
pub mod Defining
