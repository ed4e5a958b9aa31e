pub mod Answers
pub mod Library
pub mod Parts
pub mod Reading
