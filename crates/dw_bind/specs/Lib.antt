pub mod Gained
pub mod Given
pub mod Hits
pub mod Joints
pub mod Names
pub mod Parts
pub mod Steps
