pub mod Callers
pub mod Accesses
pub mod Marks
