pub mod CallLemmas
pub mod NodeLemmas
pub mod ParentRows
pub mod UsesBelow
pub mod Walks
