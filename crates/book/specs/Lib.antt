pub mod Meeting
pub mod Tests
pub mod Questions
pub mod View
pub mod Told
pub mod Ready
pub mod RunLaw
