pub mod Saving
pub mod Held
mod Names
mod InFolder
