pub mod Files
pub mod Lines
pub mod Command
pub mod inner
