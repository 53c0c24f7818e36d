pub mod Answer
pub mod First
pub mod Places
pub mod Tries
