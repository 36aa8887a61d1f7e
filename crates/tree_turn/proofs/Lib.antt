pub mod Standing
pub mod Replaced
pub mod Ended
