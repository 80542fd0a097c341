pub mod Rings
pub mod Verdicts
pub mod Shown
