pub mod Emit
pub mod Schedule
pub mod ScheduleShown
pub mod Draw
pub mod Plot
pub mod LttacAsked
pub mod LttacClauses
