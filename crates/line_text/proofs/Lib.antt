pub mod Prefixes
pub mod LineFeeds
pub mod Decimals
pub mod Pairs
pub mod TextSteps
pub mod QuoteRests
pub mod FirstChars
pub mod Texts
