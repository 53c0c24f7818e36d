pub mod ClassLemmas
pub mod NotedLemmas
