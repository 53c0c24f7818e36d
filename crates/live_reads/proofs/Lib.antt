pub mod Agreeing
pub mod LiveObjects
pub mod Looks
pub mod Reached
