pub mod Keys
pub mod Applied
