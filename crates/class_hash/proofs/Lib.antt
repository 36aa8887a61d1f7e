pub mod Facts
pub mod Seats
pub mod Walking
pub mod Updating
pub mod Trying
pub mod Putting
