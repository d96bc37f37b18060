pub mod Sound
pub mod Listed
