pub mod Line
pub mod Listed
pub mod Parsed
pub mod Rules
pub mod Explaining
