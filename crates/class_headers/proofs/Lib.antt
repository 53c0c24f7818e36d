pub mod PartLemmas
pub mod SoundLemmas
pub mod SuperLemmas
pub mod TableLemmas
pub mod WayLemmas
