pub mod ImageLoop
pub mod Writing
pub mod Telling
pub mod ChangedImages
pub mod Files
