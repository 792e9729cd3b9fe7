pub mod Case
pub mod Cases
pub mod Pages
pub mod Desks
pub mod Follows
