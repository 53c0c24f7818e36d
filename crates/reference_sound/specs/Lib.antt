pub mod Objects
pub mod EffectsHold
pub mod References
pub mod Roots
