pub mod Reversed
pub mod Popping
pub mod Tops
pub mod Seen
pub mod Monitors
