pub mod Steps
pub mod EngineInvariant
pub mod Replies
pub mod NextStatements
