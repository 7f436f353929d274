pub mod Windows
pub mod Settled
pub mod Misplaced
