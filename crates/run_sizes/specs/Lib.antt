pub mod Depths
pub mod Growth
