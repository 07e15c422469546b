pub mod Exact
pub mod Runs
pub mod Storing
