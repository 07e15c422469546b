pub mod Places
pub mod Stores
pub mod Listed
pub mod Naming
