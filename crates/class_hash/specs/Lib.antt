pub mod Seats
pub mod Room
pub mod Answers
pub mod Calls
pub mod Replies
pub mod Updates
