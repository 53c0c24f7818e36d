pub mod Choosing
pub mod Counts
pub mod OtherReleases
pub mod Releases
pub mod Rows
