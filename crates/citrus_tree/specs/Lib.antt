pub mod Lookups
pub mod Hops
pub mod Going
pub mod Replies
pub mod Deletes
