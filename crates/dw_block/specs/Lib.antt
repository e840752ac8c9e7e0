pub mod Nulls
pub mod Blocks
pub mod Zones
pub mod Stored
pub mod Unique
