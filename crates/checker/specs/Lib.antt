pub mod Related
pub mod Promise
