pub mod Logic
pub mod Bytes
pub mod Safe
