pub mod Times
pub mod Windows
pub mod Kept
pub mod Excerpts
pub mod Tapes
