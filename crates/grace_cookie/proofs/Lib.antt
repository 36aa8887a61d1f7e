pub mod Keeping
pub mod Giving
pub mod Using
