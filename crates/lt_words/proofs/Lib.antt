pub mod Digits
pub mod Steps
pub mod Simple
pub mod Telling
