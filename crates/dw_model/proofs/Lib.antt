pub mod EntryLemmas
pub mod DatabaseLemmas
pub mod Places
pub mod AscendingRows
pub mod ChangeLemmas
pub mod ObjectSets
pub mod FrameLemmas
