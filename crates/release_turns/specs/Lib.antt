pub mod Choices
pub mod UnitSteps
