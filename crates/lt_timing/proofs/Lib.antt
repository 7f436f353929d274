pub mod Cycles
pub mod Folds
pub mod EachPair
pub mod LeastRight
pub mod SameBounds
pub mod Ranges
pub mod LeastSetup
pub mod Examples
