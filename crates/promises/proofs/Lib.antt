pub mod Promises
pub mod Further
pub mod Worked
