pub mod Words
pub mod Types
pub mod Heads
pub mod Interface
