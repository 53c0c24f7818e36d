pub mod ClosingOrder
pub mod CountOpen
pub mod FewOpen
pub mod FewerOpen
pub mod NamedObjects
pub mod OpenLists
pub mod Operands
