pub mod Groups
pub mod Store
pub mod Text
pub mod Turns
