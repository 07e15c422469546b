pub mod Calls
pub mod Worth
pub mod Shortest
