pub mod Opening
pub mod Examining
