pub mod Nodes
pub mod Legal
pub mod Faults
pub mod Seats
pub mod Reports
pub mod Sizes
pub mod Layout
pub mod Spread
