-- Private: only contracts inside this crate cite what stands in this folder.
pub mod Given
