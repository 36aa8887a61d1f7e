pub mod Dictionary
pub mod Fronts
pub mod Scripts
pub mod Held
