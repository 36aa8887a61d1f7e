pub mod Marks
pub mod Callers
