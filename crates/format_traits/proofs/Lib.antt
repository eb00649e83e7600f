pub mod ParsingLemmas
pub mod TellingLemmas
