pub mod Instructions
pub mod Meanings
pub mod Rows
pub mod Parts
pub mod Choices
pub mod Listed
