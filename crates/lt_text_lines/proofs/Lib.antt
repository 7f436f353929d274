pub mod Unnamed
pub mod PlanSome
pub mod PlanLines
