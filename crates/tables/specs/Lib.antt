pub mod Off
pub mod Tabled
