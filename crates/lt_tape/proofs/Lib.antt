pub mod Loud
pub mod Tallying
pub mod Fronting
pub mod Tailing
pub mod Taping
