pub mod Names
pub mod Records
pub mod Numbers
pub mod Inner
