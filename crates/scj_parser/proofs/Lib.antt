pub mod HeightLemmas
pub mod ParsingLemmas
pub mod Within
mod WholeWays
