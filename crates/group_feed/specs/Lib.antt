pub mod Beginning
pub mod Feeding
pub mod Standing
pub mod Probing
pub mod Showing
