pub mod Answers
pub mod DeclaredOf
pub mod Lines
pub mod Runs
