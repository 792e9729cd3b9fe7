pub mod ShownLaws
pub mod RequestLaws
pub mod PageLaws
pub mod Arriving
pub mod Determined
