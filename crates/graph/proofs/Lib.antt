pub mod Turns
pub mod Nodes
pub mod Worked
