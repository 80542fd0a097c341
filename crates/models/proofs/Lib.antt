pub mod Marks
pub mod Walks
pub mod Less
pub mod Inside
pub mod Orders
