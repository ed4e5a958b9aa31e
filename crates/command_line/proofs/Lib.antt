pub mod Flags
pub mod Found
