pub mod Steps
pub mod Sizes
pub mod Paths
pub mod Short
pub mod SafeLine
pub mod PathLine
pub mod Cases
