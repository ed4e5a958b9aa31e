pub mod Chains
pub mod Once
pub mod Strays
pub mod Lengths
