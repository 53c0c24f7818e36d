pub mod Members
pub mod Parts
pub mod Safelets
pub mod Types
