pub mod Comes
pub mod Plan
pub mod Seen
pub mod Due
