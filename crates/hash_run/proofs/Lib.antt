pub mod Roomy
pub mod Finished
