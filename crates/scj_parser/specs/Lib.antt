pub mod HeightRowsSupport
pub mod Parsing
