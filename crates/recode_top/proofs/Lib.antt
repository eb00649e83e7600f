pub mod OutsideLaws
pub mod Commands
pub mod Tapes
pub mod Alone
pub mod RecodeLaws
pub mod Answering
pub mod Running
