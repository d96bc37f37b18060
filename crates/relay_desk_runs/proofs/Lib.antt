pub mod OneDesk
pub mod Saving
pub mod Opened
pub mod Scanning
pub mod Importing
pub mod Giving
