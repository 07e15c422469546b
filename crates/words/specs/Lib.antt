pub mod Words
pub mod Making
pub mod Limits
pub mod Refusals
pub mod LiteralSets
