pub mod Signs
pub mod Spelling
pub mod WordBytes
