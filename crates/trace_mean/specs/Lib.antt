pub mod Trace
pub mod Worth
pub mod Follow
pub mod Scope
pub mod Fuse
pub mod Counts
pub mod Samples
