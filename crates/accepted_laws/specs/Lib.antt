pub mod Intervals
pub mod Judgements
pub mod Kinds
pub mod Overriding
pub mod Programs
pub mod Sorts
pub mod Unbroken
pub mod Variables
