pub mod Lines
pub mod Names
pub mod Parts
pub mod Refused
pub mod Texts
