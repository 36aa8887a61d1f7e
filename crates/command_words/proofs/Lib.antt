pub mod Inputs
pub mod Reports
