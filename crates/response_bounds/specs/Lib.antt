pub mod Levels
pub mod Periods
pub mod Responses
pub mod Rows
pub mod Schedule
pub mod Sums
