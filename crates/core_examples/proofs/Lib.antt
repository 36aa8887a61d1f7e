pub mod Tests
pub mod Acts
pub mod Stretches
pub mod Runs
