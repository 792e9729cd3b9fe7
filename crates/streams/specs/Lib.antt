pub mod Fronts
pub mod Gathered
pub mod Given
