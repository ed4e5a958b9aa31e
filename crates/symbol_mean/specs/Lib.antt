pub mod Value
pub mod Symbolic
pub mod Samples
