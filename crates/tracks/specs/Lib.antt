pub mod Tracks
pub mod Inner
pub mod Runs
