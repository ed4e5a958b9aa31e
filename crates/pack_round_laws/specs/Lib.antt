pub mod Told
pub mod Packed
