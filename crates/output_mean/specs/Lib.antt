pub mod Judged
pub mod Output
