pub mod Verdicts
pub mod Working
