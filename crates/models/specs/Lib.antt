pub mod Orders
pub mod Numbers
pub mod Models
pub mod Walk
pub mod Joined
pub mod JoinedRules
