pub mod Runs
pub mod Guards
pub mod Calls
pub mod Values
