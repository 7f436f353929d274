pub mod Pieces
pub mod Places
pub mod Lines
pub mod Values
pub mod Marks
pub mod Rows
pub mod Around
pub mod PlotText
