pub mod Losing
pub mod LossyFile
pub mod LossyNumbers
pub mod Laws
pub mod Bounds
pub mod Held
pub mod LossyRecorded
