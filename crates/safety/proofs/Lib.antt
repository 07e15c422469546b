pub mod Literals
pub mod Successors
pub mod NoFinding
pub mod Ranges
pub mod Safety
