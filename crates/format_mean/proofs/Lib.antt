pub mod Cutting
pub mod Firsts
pub mod Rest
pub mod Round
pub mod Whole
