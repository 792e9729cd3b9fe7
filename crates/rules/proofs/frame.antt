-- Whose record a request may alter.
pub mod FrameLaws
pub mod Guard
