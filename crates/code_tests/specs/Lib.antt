pub mod Registers
pub mod Limits
