pub mod Counting
pub mod Ids
pub mod Ranked
