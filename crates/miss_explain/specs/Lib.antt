pub mod Search
pub mod Spot
pub mod Kept
pub mod Told
pub mod Words
pub mod Explaining
