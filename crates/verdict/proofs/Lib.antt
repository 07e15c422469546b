pub mod Traces
pub mod Combinations
pub mod Ends
pub mod Judging
pub mod Needless
pub mod Passing
