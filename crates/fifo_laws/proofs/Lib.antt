pub mod Visits
pub mod Steps
pub mod Casts
pub mod Kept
pub mod Law
