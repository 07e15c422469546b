pub mod Starts
pub mod Zeros
pub mod Table
pub mod Sheets
pub mod Line
pub mod Racks
pub mod Near
pub mod Shortest
