pub mod DefinitionLemmas
pub mod NameLemmas
pub mod PhaseLemmas
pub mod TreeLemmas
