pub mod Listing
pub mod Promised
pub mod Whole
pub mod Missed
