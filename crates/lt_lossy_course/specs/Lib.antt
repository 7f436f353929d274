pub mod LossyStrokes
pub mod LossyCourses
pub mod LossySketches
pub mod LossyLasts
pub mod LossyNoted
pub mod LossyRecording
pub mod LossyReading
pub mod LossyLaws
