pub mod Meanings
pub mod Tables
pub mod Reported
