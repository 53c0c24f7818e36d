pub mod Counters
pub mod Loads
pub mod Puts
pub mod MemSinks
pub mod MemShelves
pub mod StdSinks
pub mod FileShelves
