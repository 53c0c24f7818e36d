pub mod Fields
pub mod Inherited
pub mod Members
pub mod Tables
pub mod Walks
