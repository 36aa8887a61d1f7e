pub mod Pairs
pub mod Tries
pub mod Loads
