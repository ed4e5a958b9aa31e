pub mod Trees
pub mod Walk
pub mod Visits
pub mod Sketch
pub mod Entries
pub mod Answer
pub mod Cases
