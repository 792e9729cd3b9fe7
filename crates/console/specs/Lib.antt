pub mod Line
pub mod Console
pub mod Sheet
pub mod Inner
