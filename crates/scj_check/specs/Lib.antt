pub mod ParseOutcomes
pub mod Samples
pub mod Texts
pub mod Verdicts
