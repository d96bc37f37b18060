pub mod DiskCalls
pub mod Keeping
