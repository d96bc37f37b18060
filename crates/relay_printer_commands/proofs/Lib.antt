pub mod AuditSteps
pub mod CheckWords
pub mod LineEnds
pub mod PlanSteps
pub mod Unsettled
