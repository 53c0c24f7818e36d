pub mod ClosingEnds
