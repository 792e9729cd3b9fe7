pub mod Shapes
pub mod Inner
