pub mod Front
pub mod Kept
pub mod Passes
pub mod Room
pub mod Taken
