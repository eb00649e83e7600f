pub mod Strategies
