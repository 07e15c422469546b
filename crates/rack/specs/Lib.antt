pub mod Rack
pub mod Values
