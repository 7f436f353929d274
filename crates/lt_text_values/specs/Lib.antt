pub mod Names
pub mod Clocks
pub mod OutputLines
