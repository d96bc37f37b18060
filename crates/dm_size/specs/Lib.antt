pub mod Sizes
pub mod Squares
