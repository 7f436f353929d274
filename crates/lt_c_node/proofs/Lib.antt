pub mod Agreeing
pub mod Placed
pub mod Linked
pub mod Naming
