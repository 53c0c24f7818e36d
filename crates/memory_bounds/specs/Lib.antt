pub mod Accounting
pub mod Bounded
pub mod Theorem
pub mod Weights
