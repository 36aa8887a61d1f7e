pub mod Seats
pub mod Gains
pub mod Sections
pub mod Waits
pub mod Looks
