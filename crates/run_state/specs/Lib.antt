pub mod Calls
pub mod Seen
pub mod Standing
pub mod Steps
pub mod Tops
