pub mod Chart
pub mod Scale
pub mod Band
pub mod Cells
pub mod Room
