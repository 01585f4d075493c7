pub mod Named
pub mod Plans
pub mod PlanExamples
pub mod Steps
pub mod Schedules
pub mod ScheduleExamples
