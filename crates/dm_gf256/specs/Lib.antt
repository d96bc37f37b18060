pub mod Field
pub mod inner
