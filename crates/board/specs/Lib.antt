pub mod Board
pub mod Desk
