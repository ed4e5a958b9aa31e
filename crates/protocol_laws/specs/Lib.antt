pub mod Runs
pub mod Protocol
