pub mod Reading
pub mod Programs
pub mod Grammar
pub mod Encoding
pub mod WellFormed
