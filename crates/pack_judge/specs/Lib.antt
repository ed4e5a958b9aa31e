pub mod Judged
pub mod Unread
pub mod Due
pub mod Filling
