pub mod Doings
pub mod Losses
pub mod Network
pub mod Groups
pub mod Stages
pub mod Acts
