pub mod Calls
pub mod Expressions
pub mod Methods
pub mod Statements
