pub mod Found
pub mod Kept
pub mod Commands
pub mod Endings
pub mod Lines
