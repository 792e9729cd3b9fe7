pub mod Days
pub mod Years
