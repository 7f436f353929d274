pub mod Stages
pub mod Refusals
pub mod Decided
