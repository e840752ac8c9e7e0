pub mod Words
pub mod Files
pub mod Scripts
pub mod Statuses
