pub mod Leavings
pub mod Answers
pub mod Details
