pub mod Grounds
pub mod Feeding
