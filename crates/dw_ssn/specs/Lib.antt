pub mod CommitList
pub mod Summaries
pub mod OneObject
pub mod Places
pub mod Raised
