pub mod Answers
pub mod Index
pub mod Limits
pub mod NewTable
pub mod PlanOf
pub mod Rows
pub mod Values
