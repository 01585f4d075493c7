pub mod Messages
pub mod Outboxes
pub mod WorkSteps
pub mod Reports
