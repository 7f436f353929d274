pub mod Stores
pub mod Names
pub mod Literal
pub mod Heads
pub mod Sounds
pub mod Truthful
pub mod Chains
