pub mod Things
pub mod Fronts
pub mod Events
pub mod Histories
pub mod Laws
pub mod Example
