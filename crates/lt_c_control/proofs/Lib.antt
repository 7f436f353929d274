pub mod Pressing
pub mod Timed
pub mod Delivered
pub mod Started
pub mod LossyDeeds
