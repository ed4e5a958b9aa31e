pub mod Lines
pub mod Reliable
pub mod Flow
pub mod Order
pub mod Membership
pub mod Library
