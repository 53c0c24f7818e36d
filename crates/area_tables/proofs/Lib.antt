pub mod Going
pub mod Noting
pub mod OpenLists
pub mod Reporting
