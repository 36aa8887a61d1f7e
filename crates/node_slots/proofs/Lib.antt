pub mod Takes
pub mod Returns
pub mod Reclaims
pub mod Points
