pub mod Sheets
pub mod Laying
