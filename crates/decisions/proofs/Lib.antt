pub mod Laws
pub mod Tracked
pub mod Numbered
pub mod Asked
pub mod Requested
