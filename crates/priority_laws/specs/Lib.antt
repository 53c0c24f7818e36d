pub mod Handlers
pub mod InOrder
pub mod Nesting
pub mod Premises
pub mod Rising
pub mod Started
