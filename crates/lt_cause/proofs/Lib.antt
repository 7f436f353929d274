pub mod Walks
mod Search
mod Round
mod Table
mod Picked
mod Cycles
mod Turns
pub mod Places
