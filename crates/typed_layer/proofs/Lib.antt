pub mod Table
pub mod Ones
