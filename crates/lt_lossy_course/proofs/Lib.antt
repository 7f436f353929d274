pub mod Sent
pub mod LossyStrokes
pub mod LossyPlacing
pub mod LossyRecorded
pub mod LossyOver
pub mod LossyAgreeing
pub mod OneLossyCourse
