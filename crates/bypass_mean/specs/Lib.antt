pub mod Bypasses
pub mod Text
pub mod Lines
pub mod Samples
