pub mod LevelLemmas
pub mod LookLemmas
pub mod OpenLemmas
pub mod ReportedLemmas
