pub mod Finds
pub mod Lists
pub mod Places
mod Slots
