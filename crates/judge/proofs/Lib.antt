pub mod Walks
pub mod Promised
pub mod Counted
pub mod Distances
pub mod StepWords
pub mod Shortest
pub mod Judging
pub mod Whole
