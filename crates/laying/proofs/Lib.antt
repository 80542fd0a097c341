pub mod Laws
pub mod Room
pub mod Steps
pub mod Kept
pub mod StoreLists
pub mod ChainBlocks
pub mod EventOrder
