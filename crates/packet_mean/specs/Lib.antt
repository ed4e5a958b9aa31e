pub mod Chained
pub mod Plan
pub mod Spelling
pub mod Reading
pub mod Received
pub mod Samples
pub mod ChainedState
