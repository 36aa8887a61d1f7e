pub mod Runs
pub mod Laws
pub mod Stored
pub mod Machines
