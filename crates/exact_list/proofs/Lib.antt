pub mod Loading
pub mod Counting
pub mod Walking
pub mod Trying
