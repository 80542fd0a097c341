pub mod Weaker
pub mod Alike
pub mod HappensBefore
pub mod Verdicts
pub mod Promise
