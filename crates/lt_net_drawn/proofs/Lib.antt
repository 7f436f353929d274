pub mod Free
pub mod Takes
pub mod Comes
