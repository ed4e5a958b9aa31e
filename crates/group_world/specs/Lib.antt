pub mod Asking
pub mod Examining
pub mod Given
pub mod Opening
pub mod Parts
pub mod Restarting
pub mod Seats
