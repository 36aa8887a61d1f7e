pub mod Programs
pub mod Facts
pub mod DeleteFacts
pub mod Fits
pub mod Laws
