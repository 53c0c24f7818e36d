pub mod FindingLemmas
pub mod InheritingLemmas
pub mod LateLemmas
pub mod NameLemmas
pub mod NodeLemmas
