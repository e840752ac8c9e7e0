pub mod Due
pub mod Run
pub mod Rounds
pub mod Existing
