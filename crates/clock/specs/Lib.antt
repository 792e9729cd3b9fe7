pub mod Clock
pub mod Dates
pub mod Inner
