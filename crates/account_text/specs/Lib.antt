pub mod Account
pub mod Judging
pub mod WrongLines
