pub mod Messages
pub mod Outcomes
