pub mod Judges
pub mod Search
pub mod Ring
pub mod Found
