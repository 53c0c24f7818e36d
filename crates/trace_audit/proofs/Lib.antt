pub mod ArgumentLaws
pub mod ArrivalLaws
pub mod ChosenLaws
pub mod Decimals
pub mod FireLaws
pub mod KeyLaws
pub mod LineLaws
pub mod Partings
pub mod Picks
pub mod Places
pub mod PrintedLaws
pub mod Priorities
mod Rows
pub mod TableLaws
pub mod TextLaws
pub mod Urgent
pub mod YesLaws
