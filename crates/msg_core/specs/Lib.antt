pub mod Chain
pub mod Parts
pub mod View
pub mod Headers
pub mod Kept
