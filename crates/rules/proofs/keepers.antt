-- The two keepers keep the same chains: demand 3, of the rules.
pub mod Sorting
pub mod Fits
pub mod Alike
pub mod Notes
pub mod Demand
