pub mod Tables
pub mod Reach
pub mod Search
pub mod Edges
