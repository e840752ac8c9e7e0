pub mod Bringing
mod Constants
pub mod Disjunctions
mod Expanded
mod Faultless
mod Negations
pub mod SameValues
