pub mod Texts
pub mod Comes
pub mod Seen
pub mod Due
pub mod Closed
