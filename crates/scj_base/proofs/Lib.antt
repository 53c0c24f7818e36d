pub mod LexFacts
mod NamedPlaces
pub mod ReadThrough
