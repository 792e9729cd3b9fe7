pub mod Differences
pub mod Following
pub mod Promises
