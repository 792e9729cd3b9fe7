pub mod Tables
pub mod Sound
pub mod Calls
pub mod Demand
pub mod Inner
pub mod Walks
