pub mod FoundLemmas
mod ListLemmas
pub mod PieceLemmas
pub mod KindLemmas
