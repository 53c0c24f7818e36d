pub mod OpeningLemmas
pub mod OverrideLemmas
pub mod RepeatLemmas
pub mod SafeletLemmas
