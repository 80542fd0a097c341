pub mod Orders
pub mod Twins
pub mod Heads
pub mod Tops
pub mod Lifts
pub mod Members
pub mod StoreSteps
pub mod Kept
