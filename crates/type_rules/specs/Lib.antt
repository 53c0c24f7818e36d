pub mod Members
pub mod Parameters
