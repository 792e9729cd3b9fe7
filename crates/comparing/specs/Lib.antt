pub mod Verdicts
pub mod Inner
pub mod Sinks
