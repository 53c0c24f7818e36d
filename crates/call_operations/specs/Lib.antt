pub mod Continued
pub mod Periodic
pub mod Choosing
