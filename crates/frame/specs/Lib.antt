pub mod Frame
pub mod Masks
