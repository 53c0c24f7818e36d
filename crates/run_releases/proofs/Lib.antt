pub mod ByPlace
pub mod Changes
pub mod Choosing
pub mod Counted
pub mod Counting
pub mod Seen
pub mod Reporting
pub mod Waiting
