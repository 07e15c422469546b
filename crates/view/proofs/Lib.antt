pub mod Reading
pub mod Graphs
