pub mod Variables
pub mod Starts
pub mod Equations
pub mod Steps
pub mod Acts
pub mod Messages
