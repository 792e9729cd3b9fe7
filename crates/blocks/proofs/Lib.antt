pub mod Copying
pub mod Cuts
pub mod Arriving
pub mod Going
pub mod AllTurns
pub mod Determined
pub mod OneStep
