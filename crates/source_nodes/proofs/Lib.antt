pub mod ClassNames
pub mod ExpressionsFine
pub mod FilesFine
pub mod Fits
pub mod HeadersFine
pub mod Reading
pub mod StatementsFine
