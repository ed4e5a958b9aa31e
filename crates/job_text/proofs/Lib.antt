pub mod Words
pub mod Bounds
pub mod Members
