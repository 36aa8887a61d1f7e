pub mod Memory
pub mod Steps
pub mod Rule
pub mod Laws
