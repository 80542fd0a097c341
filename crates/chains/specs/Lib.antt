pub mod Numbers
pub mod Ends
pub mod Twins
pub mod Lift
