pub mod Faults
pub mod Grammar
pub mod Written
pub mod inner
