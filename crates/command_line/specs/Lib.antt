pub mod Answers
pub mod Command
pub mod Job
pub mod Sizes
