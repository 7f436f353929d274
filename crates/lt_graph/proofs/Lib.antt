pub mod Relations
pub mod Reaches
pub mod Searching
pub mod Standing
pub mod Edges
