pub mod Template
pub mod Chart
pub mod Marks
pub mod Tints
pub mod Axis
pub mod Arrows
