pub mod Growing
pub mod Operating
pub mod Units
