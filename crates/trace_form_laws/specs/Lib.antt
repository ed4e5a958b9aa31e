pub mod Entries
pub mod Plans
pub mod Counts
pub mod Names
pub mod Closed
pub mod There
pub mod WellFormed
pub mod Samples
