pub mod Surveys
pub mod Ready
