pub mod Needs
pub mod Passed
