pub mod Trees
pub mod Places
pub mod Told
