pub mod MetBounds
pub mod KeptRows
