pub mod Values
pub mod Statements
pub mod Steps
pub mod Shown
pub mod Pieces
pub mod Executing
pub mod Calling
pub mod BoolSlots
