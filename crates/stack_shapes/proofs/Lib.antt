pub mod Indexing
pub mod Gathered
pub mod Groups
pub mod Common
pub mod Held
mod Few
mod Begins
