pub mod Leavings
pub mod AnsweredInputs
