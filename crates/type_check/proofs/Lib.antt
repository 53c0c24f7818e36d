pub mod KindLemmas
pub mod PassLemmas
pub mod RowLemmas
