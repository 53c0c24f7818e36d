pub mod Guards
pub mod Phase
