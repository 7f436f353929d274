pub mod Examples
mod Columns
pub mod Lookups
pub mod Reading
pub mod Graph
pub mod Order
pub mod Solution
pub mod Streams
pub mod Calls
pub mod Heights
pub mod Placed
pub mod Tells
pub mod Kept
pub mod First
pub mod Weighing
pub mod Behaviour
pub mod Defined
mod Cuts
pub mod Shape
mod Wrapping
mod Pushing
pub mod Presence
pub mod Counted
pub mod Digits
