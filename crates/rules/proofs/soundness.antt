-- Sound states stay sound.
pub mod Chaining
pub mod Fine
pub mod Apt
pub mod Making
pub mod Passing
pub mod Waking
pub mod Ending
pub mod Ticking
pub mod SoundFresh
pub mod Keeping
pub mod SoundCalls
pub mod SoundRuns
