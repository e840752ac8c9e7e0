mod Results
pub mod DueTurns
pub mod NextEvents
pub mod StepLemmas
mod ViewLemmas
mod Replies
pub mod Commits
pub mod ScriptLemmas
pub mod Stuck
pub mod Asking
