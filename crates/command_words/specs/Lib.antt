pub mod Statuses
pub mod Arguments
pub mod Commands
pub mod LineFaults
