pub mod Lengths
pub mod UpTo
