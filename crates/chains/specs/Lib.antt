pub mod Links
pub mod Inner
