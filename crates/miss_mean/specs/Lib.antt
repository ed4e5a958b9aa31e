pub mod Spots
pub mod Text
