pub mod Shown
pub mod OneDrawing
