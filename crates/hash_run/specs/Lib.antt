pub mod Capacities
pub mod Crews
