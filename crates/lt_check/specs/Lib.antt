pub mod Places
pub mod TypeFaults
pub mod Innermost
pub mod ClockFaults
pub mod Shares
pub mod Fitting
