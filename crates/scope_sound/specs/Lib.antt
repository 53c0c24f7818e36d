pub mod FramedAndPlaced
pub mod Sound
