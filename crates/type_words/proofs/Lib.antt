pub mod ReturnLemmas
