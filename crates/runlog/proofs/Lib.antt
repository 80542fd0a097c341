pub mod Steps
pub mod Outcomes
pub mod Recorded
pub mod Spelled
pub mod Laws
