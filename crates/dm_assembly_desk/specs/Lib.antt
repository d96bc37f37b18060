pub mod Codes
pub mod Documents
pub mod inner
pub mod Desk
