pub mod Desks
pub mod inner
