pub mod Answer
pub mod Course
pub mod Making
pub mod Parts
pub mod Plan
pub mod Reading
pub mod Blocks
