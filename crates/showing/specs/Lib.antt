pub mod Showing
pub mod Promises
pub mod Inner
