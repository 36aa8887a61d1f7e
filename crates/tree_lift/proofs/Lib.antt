pub mod Calls
pub mod Ways
pub mod Slots
pub mod Attempts
mod TurnedDown
