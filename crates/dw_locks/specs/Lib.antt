pub mod Walks
pub mod LockTable
pub mod Grants
pub mod Requests
pub mod Cycles
pub mod Lasting
pub mod Holders
