pub mod Faults
pub mod Asked
