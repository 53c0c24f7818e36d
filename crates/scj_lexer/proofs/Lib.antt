pub mod Computing
pub mod Decided
pub mod Exact
mod Examples
pub mod Places
pub mod Reached
pub mod Runs
pub mod Searches
pub mod TableChecks
pub mod Whole
