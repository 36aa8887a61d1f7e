pub mod Passing
pub mod Locks
pub mod Updates
pub mod Waits
