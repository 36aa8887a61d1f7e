pub mod Draws
pub mod Summaries
