pub mod Obeying
pub mod ScheduleRead
pub mod LttacAsking
pub mod LttacPerformed
