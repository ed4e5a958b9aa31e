pub mod Scope
pub mod Sorts
pub mod Words
pub mod Found
