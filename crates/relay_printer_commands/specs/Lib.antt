pub mod Printers
pub mod inner
