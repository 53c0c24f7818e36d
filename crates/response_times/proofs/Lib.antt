pub mod Missions
pub mod Followed
pub mod Bounded
pub mod FromMission
pub mod Accepted
pub mod Texts
pub mod HandlerRows
