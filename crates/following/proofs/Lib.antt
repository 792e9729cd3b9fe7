pub mod Fifteen
pub mod AfterLines
pub mod Judged
pub mod Differing
pub mod Exactly
pub mod Determined
