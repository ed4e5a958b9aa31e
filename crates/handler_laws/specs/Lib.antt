pub mod Steps
pub mod Handled
pub mod Members
