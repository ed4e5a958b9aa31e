pub mod Reading
pub mod Bearers
pub mod Charts
pub mod Turns
pub mod Scenes
