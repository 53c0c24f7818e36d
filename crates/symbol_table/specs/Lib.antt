pub mod Scopes
pub mod Symbols
