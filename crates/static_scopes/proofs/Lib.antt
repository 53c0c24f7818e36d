pub mod VariableLemmas
