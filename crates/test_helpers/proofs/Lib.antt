pub mod Steps
mod Fields
mod SeenIsLeft
mod Noted
mod Stopped
mod Named
mod NamesKept
