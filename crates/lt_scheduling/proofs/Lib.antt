pub mod Drawn
pub mod Paced
pub mod AsSim
pub mod OneTiming
pub mod OneSchedule
pub mod Loaded
