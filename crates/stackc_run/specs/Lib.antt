pub mod Performed
pub mod Through
