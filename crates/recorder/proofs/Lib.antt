pub mod Lowest
pub mod Runs
pub mod Refusals
pub mod Undamaged
pub mod Complete
