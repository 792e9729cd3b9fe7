pub mod Agree
pub mod Slots
pub mod Totals
pub mod Splices
pub mod Reading
pub mod Laying
pub mod Seeking
pub mod Listed
