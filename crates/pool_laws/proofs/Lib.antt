pub mod Rows
pub mod Counts
pub mod Room
pub mod Stages
pub mod Views
