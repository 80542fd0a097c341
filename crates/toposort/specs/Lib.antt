pub mod Graph
pub mod Listing
pub mod Cycle
pub mod Answer
pub mod Scratch
