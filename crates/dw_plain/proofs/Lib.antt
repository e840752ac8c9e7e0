pub mod BindLemmas
pub mod InsertLemmas
pub mod LiteralLemmas
pub mod PlaceLemmas
pub mod SelectLemmas
