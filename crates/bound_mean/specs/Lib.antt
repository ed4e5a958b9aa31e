pub mod Words
pub mod Told
pub mod Ends
pub mod Through
pub mod Samples
