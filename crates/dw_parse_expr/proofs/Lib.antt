mod Steps
pub mod MarkLemmas
pub mod LevelLemmas
mod Sound
mod SoundLevels
pub mod Places
mod AtomLemmas
mod Items
mod GoesOn
mod Comes
mod Complete
pub mod Answered
mod Along
mod Ends
mod FromTheEnd
