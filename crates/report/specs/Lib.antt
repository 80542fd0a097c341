pub mod Longest
pub mod Report
