pub mod Words
pub mod Find
pub mod Ends
pub mod Through
