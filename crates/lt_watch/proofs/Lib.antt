pub mod Cells
pub mod Stages
pub mod Whole
pub mod OneWatch
mod Unwatched
