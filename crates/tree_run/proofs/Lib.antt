pub mod Calls
pub mod Finished
