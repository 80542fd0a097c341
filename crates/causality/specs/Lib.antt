pub mod Rows
pub mod Causal
