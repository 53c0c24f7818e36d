pub mod Blocks
pub mod Closing
pub mod Declarations
pub mod Files
pub mod Machine
pub mod Members
pub mod Operands
pub mod States
