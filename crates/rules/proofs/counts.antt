-- Claims for tracks, and counts as differences.
pub mod Rising
pub mod Freed
pub mod CountLaws
pub mod Claims
