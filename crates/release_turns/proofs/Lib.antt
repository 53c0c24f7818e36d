pub mod OtherReleases
pub mod SequencerReleases
pub mod Turns
