pub mod Faults
pub mod Layout
pub mod Spelling
pub mod Reading
pub mod FirstFault
pub mod Opening
pub mod Sample
