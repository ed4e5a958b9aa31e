pub mod Node
pub mod Room
pub mod Shown
pub mod Told
