pub mod Bases
pub mod Invariant
pub mod Registering
pub mod SequencerFacts
