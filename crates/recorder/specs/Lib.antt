pub mod Faults
pub mod Lowest
pub mod Places
pub mod Edits
pub mod Record
pub mod Refusals
pub mod Sealing
