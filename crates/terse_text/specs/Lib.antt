pub mod Terse
pub mod Parser
