pub mod Misplaced
pub mod Sited
pub mod PartRead
pub mod ReadySoFar
pub mod Checking
pub mod Chain
