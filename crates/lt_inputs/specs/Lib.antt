pub mod Fields
pub mod Inputs
pub mod Records
pub mod Told
