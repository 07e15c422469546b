pub mod Calls
pub mod Weighing
