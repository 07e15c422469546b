pub mod Reach
pub mod Count
pub mod Grown
pub mod Numbered
pub mod Distances
pub mod Sound
pub mod Theorem
pub mod Steps
