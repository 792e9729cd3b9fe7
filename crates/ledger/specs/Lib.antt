pub mod Ledger
pub mod Inner
