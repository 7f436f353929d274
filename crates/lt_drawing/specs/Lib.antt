pub mod Kept
pub mod Titles
pub mod Pictures
pub mod Drawn
