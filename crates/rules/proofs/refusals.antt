-- A refusal leaves the state as it was.
pub mod Refusals
