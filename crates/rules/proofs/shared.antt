-- What several theorems share: records and numbers of programs, what a deed leaves, the parts of rules, who wakes.
pub mod Places
pub mod Deeds
pub mod Finding
pub mod Paths
pub mod Walk
pub mod Parts
pub mod Ordering
pub mod Settling
pub mod OneAnswer
pub mod ManyTicks
pub mod Starting
