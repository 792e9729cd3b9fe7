-- Each test of soundness says what its clause says.
pub mod Agree
pub mod AgreeTables
