pub mod Rows
pub mod Weighs
pub mod Asking
