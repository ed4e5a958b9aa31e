pub mod Visits
pub mod Walks
pub mod Orders
pub mod Kept
pub mod Law
