pub mod Parts
pub mod Taken
