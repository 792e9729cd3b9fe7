pub mod Page
pub mod Paging
pub mod Inner
