pub mod AccountTexts
pub mod Accounts
pub mod Replays
pub mod Changes
pub mod JudgedScripts
pub mod WrongLines
