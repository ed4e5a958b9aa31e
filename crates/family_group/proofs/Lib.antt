pub mod Steps
pub mod Told
pub mod Named
mod Idle
