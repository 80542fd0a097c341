pub mod Words
pub mod Lines
pub mod Turned
pub mod Lowest
pub mod Parts
pub mod Parted
