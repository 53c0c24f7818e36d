pub mod CommandLemmas
pub mod MatchLemmas
pub mod Rows
