pub mod Events
mod Explained
mod Opened
pub mod Plays
pub mod Reading
