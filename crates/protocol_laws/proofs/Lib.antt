pub mod Lists
pub mod Meant
pub mod Runs
pub mod Steps
pub mod Protocols
