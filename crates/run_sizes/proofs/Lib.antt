pub mod Deep
pub mod DeepEffects
pub mod DeepSteps
pub mod Growing
pub mod Operating
pub mod Within
