pub mod Confirm
pub mod Places
pub mod Breaks
