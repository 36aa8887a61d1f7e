pub mod Ways
pub mod Lifts
pub mod Sinks
