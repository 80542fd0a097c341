pub mod Texts
pub mod Longest
pub mod RefusalRoom
