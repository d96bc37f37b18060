-- Private: only contracts inside this crate cite what is in this folder.
pub mod Steps
