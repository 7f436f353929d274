pub mod Optional
pub mod Faithful
pub mod Widened
pub mod Places
pub mod Solid
pub mod Lines
pub mod Loaded
pub mod OnePlot
