pub mod ForestLemmas
pub mod RecursionLemmas
