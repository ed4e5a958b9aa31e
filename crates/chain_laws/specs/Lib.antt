pub mod Typed
pub mod Named
pub mod Visits
pub mod Runs
pub mod Orderly
