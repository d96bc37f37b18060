pub mod Words
pub mod Scripts
