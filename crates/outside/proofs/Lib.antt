pub mod Counts
pub mod Appended
pub mod Found
pub mod Gathered
pub mod Waiting
pub mod Gaining
pub mod Turns
