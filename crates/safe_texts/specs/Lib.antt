pub mod Instances
pub mod SafeCalls
pub mod SafePrograms
pub mod SharedGate
