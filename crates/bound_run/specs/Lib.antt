pub mod Reading
pub mod Shown
pub mod Looks
pub mod Fetching
