pub mod Fields
pub mod Pieces
pub mod Dues
pub mod Order
pub mod Sheet
pub mod Most
pub mod Laying
pub mod Found
