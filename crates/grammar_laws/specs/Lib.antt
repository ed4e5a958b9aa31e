pub mod After
pub mod Once
pub mod Stopped
pub mod Machine
pub mod Parts
pub mod Verdict
