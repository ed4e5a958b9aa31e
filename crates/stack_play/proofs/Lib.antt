pub mod Moments
pub mod Events
pub mod Held
pub mod Counted
pub mod Outputs
