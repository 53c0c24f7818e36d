pub mod Frames
pub mod EffectsSeen
pub mod Lending
