pub mod ListFacts
pub mod Dictionaries
