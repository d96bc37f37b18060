pub mod Paths
mod Nothing
pub mod NoteLines
pub mod Own
