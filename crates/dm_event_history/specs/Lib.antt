pub mod Relay
pub mod Steps
pub mod Worked
pub mod Headline
pub mod Told
