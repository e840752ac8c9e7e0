pub mod Fronts
pub mod Like
