pub mod OneRelease
pub mod EmptyHandler
pub mod KeptSchedules
pub mod UnitTests
pub mod Controller
pub mod ControllerRows
