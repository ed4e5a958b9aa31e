pub mod Numbered
pub mod Shown
pub mod Tallied
pub mod Moments
pub mod Gained
