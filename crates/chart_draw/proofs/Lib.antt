pub mod Joined
pub mod Loops
pub mod Marked
pub mod Stays
pub mod Stubbed
pub mod Ran
pub mod Through
