pub mod Violated
pub mod Parts
pub mod Chains
pub mod Places
pub mod Pruning
