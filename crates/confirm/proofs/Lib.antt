pub mod Places
pub mod Breaks
pub mod Findings
