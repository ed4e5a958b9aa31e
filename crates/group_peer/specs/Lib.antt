pub mod Codes
pub mod Heads
pub mod Standing
pub mod Telling
pub mod Next
pub mod Opening
