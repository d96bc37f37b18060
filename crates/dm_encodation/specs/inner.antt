-- Private: only contracts inside this crate cite what stands in this folder.
pub mod Counting
pub mod Reading
