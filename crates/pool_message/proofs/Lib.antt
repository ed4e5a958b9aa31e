pub mod Ranges
pub mod Moves
pub mod Lists
pub mod Stays
pub mod Piles
pub mod Slots
mod Chains
pub mod Lines
