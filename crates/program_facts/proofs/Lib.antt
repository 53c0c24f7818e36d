pub mod MeaningLemmas
pub mod VariableLemmas
