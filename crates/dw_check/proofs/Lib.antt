pub mod EndLemmas
pub mod DueLemmas
pub mod ItemLemmas
pub mod RightLemmas
