pub mod Laws
pub mod Fields
pub mod Read
pub mod Exact
pub mod Words
pub mod Lines
