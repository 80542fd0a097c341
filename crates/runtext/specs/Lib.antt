pub mod Longest
pub mod Text
