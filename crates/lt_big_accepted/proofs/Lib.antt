mod Spelled
pub mod Checks
pub mod Flat
pub mod Seats
