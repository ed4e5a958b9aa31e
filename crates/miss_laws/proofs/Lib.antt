pub mod Positions
pub mod Checked
pub mod Stops
pub mod Told
