pub mod Alike
pub mod Arriving
pub mod Led
pub mod Moves
pub mod Next
pub mod Refused
pub mod Standing
