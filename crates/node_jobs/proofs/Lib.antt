pub mod Below
pub mod Plans
pub mod Stops
pub mod Runs
pub mod Heard
pub mod Network
pub mod Seen
pub mod Due
