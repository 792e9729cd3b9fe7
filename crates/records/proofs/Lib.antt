pub mod Names
pub mod NameBytes
pub mod Search
pub mod Find
pub mod Table
