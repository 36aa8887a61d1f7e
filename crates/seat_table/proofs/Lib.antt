pub mod Facts
pub mod Gains
pub mod SeveralSteps
pub mod Seats
pub mod Waiting
