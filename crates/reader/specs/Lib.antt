pub mod Order
pub mod Said
pub mod Reading
pub mod Lines
pub mod Inner
pub mod Walks
