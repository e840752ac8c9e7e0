pub mod ViewLemmas
pub mod Definitions
