pub mod Labels
pub mod Opening
pub mod inner
