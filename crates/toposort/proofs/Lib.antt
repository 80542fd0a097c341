pub mod Pigeons
pub mod Writing
pub mod Walks
pub mod Turns
pub mod Laws
pub mod Same
