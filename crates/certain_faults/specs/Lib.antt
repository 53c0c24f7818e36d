pub mod Faults
pub mod Known
pub mod Next
pub mod Places
pub mod Report
