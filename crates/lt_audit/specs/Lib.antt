pub mod Misses
pub mod Selected
pub mod Audit
pub mod Acts
pub mod Standing
pub mod Starts
