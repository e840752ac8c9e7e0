pub mod Counting
pub mod Ways
pub mod Waits
pub mod Holding
pub mod NoStuckRun
