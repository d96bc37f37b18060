pub mod FaultNames
pub mod Header
pub mod Image
pub mod Laws
pub mod inner
