pub mod Numbers
pub mod Chains
pub mod Steps
pub mod Violations
pub mod Layings
pub mod Absent
