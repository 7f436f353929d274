pub mod Words
pub mod Lines
pub mod FileLines
pub mod ScheduleLines
pub mod PlanNumbers
pub mod PlanText
