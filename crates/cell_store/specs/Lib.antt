pub mod Kept
pub mod Coded
pub mod Fresh
pub mod Rings
pub mod Frames
pub mod Slots
pub mod Laws
