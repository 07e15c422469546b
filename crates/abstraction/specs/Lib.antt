pub mod Abstraction
pub mod Faithful
pub mod Claims
