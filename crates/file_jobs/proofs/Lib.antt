pub mod Texts
pub mod Stops
mod Fetched
pub mod SecondStops
pub mod Sound
