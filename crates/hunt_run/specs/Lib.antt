pub mod Reading
pub mod Breaks
pub mod Looks
