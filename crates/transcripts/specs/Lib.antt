pub mod Transcripts
pub mod Finding
pub mod Listing
pub mod Promises
pub mod Inner
