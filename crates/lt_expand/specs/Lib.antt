pub mod Copies
pub mod Expansion
pub mod Walk
