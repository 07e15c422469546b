pub mod SetsLoop
pub mod ActionParts
