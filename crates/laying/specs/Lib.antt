pub mod Gathers
pub mod Stores
