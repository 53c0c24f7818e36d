pub mod Needs
pub mod Refusals
pub mod ScopeRows
