pub mod shared
pub mod tests
pub mod keepers
pub mod soundness
pub mod frame
pub mod counts
pub mod refusals
pub mod Statements
