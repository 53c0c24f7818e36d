pub mod Alike
pub mod Parts
pub mod Placed
pub mod Reread
pub mod Rows
pub mod Symbols
pub mod Works
