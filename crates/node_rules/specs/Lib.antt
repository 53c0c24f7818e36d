pub mod Findings
pub mod Nodes
