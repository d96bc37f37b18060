pub mod Shows
pub mod inner
