pub mod Records
pub mod Naming
pub mod Steps
